-- Small facts on tests and options.
use Rattle.std.proofs.Common.{◌≡◌, ◌⊎◌, inl, inr, ℕ, Bool, true, false, ◌&&◌, cond, Option, Some, None, ◌==◌, refl}
use Rattle.std.specs.Bool.{Decides}
use Rattle.std.specs.Option.{option_map}
use Rattle.std.proofs.lemmas.Bool.Decides.{Decides-eqb}
use Rattle.script_read.specs.Reading.{◌>>=◌}

pub some-is : {A : Type 0} {a b : A} → Some a ≡ Some b → a ≡ b
some-is e = cc

pub and-true : (a b : Bool) → (a && b) ≡ true → (a ≡ true) × (b ≡ true)
and-true true b e = (refl, e)
and-true false b e = absurd (cc)

pub chosen : {A : Type 0} (b : Bool) (x y z : A) → cond b x y ≡ z → ((b ≡ true) × (x ≡ z)) ⊎ ((b ≡ false) × (y ≡ z))
chosen true x y z e = inl (refl, e)
chosen false x y z e = inr (refl, e)

pub same : (c : ℕ) → (c == c) ≡ true
same c = (Decides-eqb c c).1 refl

pub equal : (b c : ℕ) → (b == c) ≡ true → b ≡ c
equal b c e = (Decides-eqb b c).0 e

pub differs : (b c : ℕ) → (b ≡ c → ⊥) → (b == c) ≡ false
differs b c lacks = elim (b == c) as (λ (t : Bool). Decides t (b ≡ c) → t ≡ false) [ true ↦ λ d. absurd (lacks (d.0 refl)) | false ↦ λ d. refl ] (Decides-eqb b c)

pub unequal : (b c : ℕ) → (b == c) ≡ false → b ≡ c → ⊥
unequal b c e is = let t : (b == c) ≡ true = (Decides-eqb b c).1 is in absurd (cc)

-- the value of a step that gave one
pub record Bound {A B : Type 0} (o : Option A) (f : A → Option B) (y : B) : Type 0 where
  pub value : A
  pub was : o ≡ Some value
  pub gives : f value ≡ Some y

pub bound : {A B : Type 0} (o : Option A) (f : A → Option B) (y : B) → (o >>= f) ≡ Some y → Bound o f y
bound None f y e = absurd (cc)
bound (Some x) f y e = record { value = x; was = refl; gives = e }

pub record Mapped {A B : Type 0} (o : Option A) (f : A → B) (y : B) : Type 0 where
  pub value : A
  pub was : o ≡ Some value
  pub gives : f value ≡ y

pub mapped : {A B : Type 0} (o : Option A) (f : A → B) (y : B) → option_map f o ≡ Some y → Mapped o f y
mapped None f y e = absurd (cc)
mapped (Some x) f y e = record { value = x; was = refl; gives = some-is e }
