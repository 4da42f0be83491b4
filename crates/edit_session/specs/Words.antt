-- The words of the command line, after the program's name: `check`, `replay`, `bulk` and a number,
-- or `run` and its options.
use Rattle.std.specs.Prelude.{◌≡◌, ◌⊎◌, ℕ, Bool, true, false, ◌&&◌, nat_lt, nat_le, nat_eq, List, [], ◌∷◌, ◌++◌, length, drop, codes, bytes_eq, Option, Some, None, is_some, unwrap_or, if◌then◌else◌}
use denote.Ref.{Bor}
use Rattle.std.specs.Option.{option_map, option_and_then, option_map_or}
use Rattle.std.specs.List.{starts_with}
use Rattle.script_read.specs.Reading.{number_of}
use Rattle.edit_session.specs.Denials.{names_of, names_in}
use Rattle.edit_session.specs.declared.words.Order as read_order
use Rattle.edit_session.specs.declared.words.Order.TheVariants as orders
use Rattle.edit_session.specs.declared.words.Setting.{Setting}
use Rattle.edit_session.specs.declared.words.Setting.TheVariants.{Cap, Undo, Deny}
use Rattle.edit_session.specs.declared.words.Options.{Options}
use Rattle.edit_session.specs.declared.words.Limits as read_limits

-- What bounds a session: labels stay below the cap, so many entries are kept for undo, and these
-- names of commands are denied.
pub record Limits : Type 0 where
  pub cap : ℕ
  pub undo : ℕ
  pub denied : List (List ℕ)

-- what the program is asked to do
pub data Order : Type 0 where
  Run : (limits : Limits) → Order
  Check : Order
  Replay : Order
  Bulk : (count : ℕ) → Order

-- whether an order reads the input
abbrev pub reads_input : Order → Bool
reads_input Check = true
reads_input (Run limits) = true
reads_input Replay = true
reads_input (Bulk count) = false

-- ---- settings

-- how an option of `run` is written
abbrev pub name_of : Setting → List ℕ
name_of Cap = codes "--cap"
name_of Undo = codes "--undo"
name_of Deny = codes "--deny"

-- the greatest cap, which holds where none is given
abbrev pub greatest_cap : ℕ
greatest_cap = 2000000

-- the greatest depth of undo, and the one that holds where none is given
abbrev pub greatest_undo : ℕ
greatest_undo = 1000

abbrev pub usual_undo : ℕ
usual_undo = 100

-- a number from 1 to the greatest; numbers are those of acts
abbrev pub amount_of : ℕ → List ℕ → Option ℕ
amount_of greatest text =
    option_and_then (λ n. if nat_lt 0 n && nat_le n greatest then Some n else None)
    (number_of text)

-- an option with its value
pub data Choice : Type 0 where
  CapAt : (amount : ℕ) → Choice
  UndoUpTo : (amount : ℕ) → Choice
  Denying : (names : List (List ℕ)) → Choice

-- what the text of its value chooses for an option
abbrev pub choice_of : Setting → List ℕ → Option Choice
choice_of Cap text = option_map CapAt (amount_of greatest_cap text)
choice_of Undo text = option_map UndoUpTo (amount_of greatest_undo text)
choice_of Deny text = option_map Denying (names_of text)

-- the options that are given so far
pub record Given : Type 0 where
  pub cap : Option ℕ
  pub undo : Option ℕ
  pub deny : Option (List (List ℕ))

abbrev pub given_in : Options → Given
given_in o = record {
  cap = o.cap;
  undo = o.undo;
  deny = option_map (λ text. names_in text.now) o.deny;
}

abbrev pub is_given : Given → Setting → Bool
is_given g Cap = is_some g.cap
is_given g Undo = is_some g.undo
is_given g Deny = is_some g.deny

abbrev pub with_choice : Given → Choice → Given
with_choice g (CapAt n) = record g { cap = Some n }
with_choice g (UndoUpTo n) = record g { undo = Some n }
with_choice g (Denying names) = record g { deny = Some names }

abbrev pub none_given : Given
none_given = record { cap = None; undo = None; deny = None }

-- what holds in a session: what is given, and else what is usual
abbrev pub limits_of : Given → Limits
limits_of g =
    record {
      cap = unwrap_or g.cap greatest_cap;
      undo = unwrap_or g.undo usual_undo;
      denied = unwrap_or g.deny [];
    }

-- what holds where nothing is given
abbrev pub usual_limits : Limits
usual_limits = limits_of none_given

-- what the program keeps of the words shows these, where names are kept as their text
abbrev pub denied_in : Option (Bor (List ℕ)) → List (List ℕ)
denied_in text = option_map_or (λ text. names_in text.now) text []

abbrev pub limits_in : read_limits.Limits → Limits
limits_in l = record { cap = l.cap; undo = l.undo; denied = denied_in l.denied }

abbrev pub order_in : read_order.Order → Order
order_in (orders.Run limits) = Run (limits_in limits)
order_in orders.Check = Check
order_in orders.Replay = Replay
order_in (orders.Bulk count) = Bulk count

-- how many paragraphs a session of `bulk` may have
abbrev pub greatest_bulk : ℕ
greatest_bulk = 5000

-- the number of paragraphs that a text says: 1 to 4 digits
abbrev pub bulk_count_of : List ℕ → Option ℕ
bulk_count_of text = if nat_le (length text) 4 then amount_of greatest_bulk text else None

-- ---- the grammar: which words ask for which order

-- the words begin with an option and the text of its value, as two words or as one, and rest
-- follows
abbrev pub IsSetting : Setting → Choice → List (List ℕ) → List (List ℕ) → Type 0
IsSetting s choice words rest =
    (text : List ℕ) × (choice_of s text ≡ Some choice)
    × ((words ≡ name_of s ∷ text ∷ rest) ⊎ (words ≡ (name_of s ++ codes "=" ++ text) ∷ rest))

-- options in any order, each at most once: `before` are given before them, and `after` when they
-- are
abbrev pub AreSettings : List (Setting × Choice) → List (List ℕ) → Given → Given → Type 0
AreSettings [] words before after = (words ≡ []) × (before ≡ after)
AreSettings (x ∷ xs) words before after =
    (rest : List (List ℕ)) × IsSetting x.0 x.1 words rest × (is_given before x.0 ≡ false)
    × AreSettings xs rest (with_choice before x.1) after

abbrev pub IsOrder : List (List ℕ) → Order → Type 0
IsOrder words Check = words ≡ codes "check" ∷ []
IsOrder words Replay = words ≡ codes "replay" ∷ []
IsOrder words (Bulk count) =
    (text : List ℕ) × (words ≡ codes "bulk" ∷ text ∷ []) × (bulk_count_of text ≡ Some count)
IsOrder words (Run limits) =
    (xs : List (Setting × Choice)) × (rest : List (List ℕ)) × (given : Given)
    × (words ≡ codes "run" ∷ rest) × AreSettings xs rest none_given given
    × (limits ≡ limits_of given)

-- ---- the order that words ask for, computed

-- the option that a word names alone, and the one that a word gives with the text of its value
abbrev pub setting_named : List ℕ → Option Setting
setting_named word =
    if bytes_eq word (codes "--cap") then Some Cap
    else (if bytes_eq word (codes "--undo") then Some Undo
    else (if bytes_eq word (codes "--deny") then Some Deny else None))

abbrev pub setting_joined : List ℕ → Option (Setting × List ℕ)
setting_joined word =
    if starts_with nat_eq word (codes "--cap=") then Some (Cap, drop 6 word)
    else (if starts_with nat_eq word (codes "--undo=") then Some (Undo, drop 7 word)
    else (if starts_with nat_eq word (codes "--deny=") then Some (Deny, drop 7 word) else None))

-- one option more, if it isn't given yet and the text is one of its values
abbrev pub setting_read : Given → Setting → List ℕ → Option Given
setting_read g s text = if is_given g s then None else option_map (with_choice g) (choice_of s text)

abbrev pub joined_read : Given → List ℕ → Option Given
joined_read g word = option_and_then (λ p. setting_read g p.0 p.1) (setting_joined word)

abbrev pub options_read : Given → List (List ℕ) → Option Given
options_read g [] = Some g
options_read g (word ∷ []) = joined_read g word
options_read g (word ∷ (text ∷ words)) =
    option_map_or (λ s. option_and_then (λ more. options_read more words) (setting_read g s text))
    (setting_named word)
    (option_and_then (λ more. options_read more (text ∷ words)) (joined_read g word))

abbrev pub run_of : Given → Order
run_of g = Run (limits_of g)

-- an order of one word, and the one that takes a number
abbrev pub lone_order : List ℕ → Option Order
lone_order word =
    if bytes_eq word (codes "check") then Some Check
    else (if bytes_eq word (codes "replay") then Some Replay else None)

abbrev pub bulk_order : List ℕ → List ℕ → Option Order
bulk_order word text =
    if bytes_eq word (codes "bulk") then option_map Bulk (bulk_count_of text) else None

-- an order without options
abbrev pub plain_order : List ℕ → List (List ℕ) → Option Order
plain_order word [] = lone_order word
plain_order word (text ∷ []) = bulk_order word text
plain_order word (text ∷ (more ∷ words)) = None

abbrev pub order_of : List (List ℕ) → Option Order
order_of [] = None
order_of (word ∷ words) =
    if bytes_eq word (codes "run") then option_map run_of (options_read none_given words)
    else plain_order word words
