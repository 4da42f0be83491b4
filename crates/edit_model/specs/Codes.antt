-- How states and histories are stored, by which proofs tell them apart.
use Rattle.std.specs.Prelude.{◌≡◌, ℕ, zero, suc, Bool, List, [], Option, refl}
use Rattle.std.specs.Coded.{Coded, code_by, coded×, coded_ℕ, coded_bool, coded_list, coded_option}
use Rattle.point_order.specs.DomModel.declared.Content.{Content}
use Rattle.point_order.specs.DomModel.Change.{Change}
use Rattle.point_order.specs.DomModel.ChangeCode.{change_code}
use Rattle.point_order.specs.DomModel.ContentCode.{content_code}
use Rattle.point_order.specs.DomModel.Code.{forest_code}
use Rattle.point_order.specs.DomModel.Forest.{Forest}
use Rattle.point_order.specs.LiveRange.declared.places.Point.{Point}
use Rattle.point_order.specs.LiveRange.declared.places.Pair.{Pair}
use Rattle.point_order.specs.LiveRange.LivePoints.{LivePoints}
use Rattle.edit_model.specs.declared.settings.Setting.{Setting}
use Rattle.edit_model.specs.declared.settings.Setting.TheVariants.{On, Off, Text, Absent}
use Rattle.edit_model.specs.declared.settings.Flags.{Flags}
use Rattle.edit_model.specs.State.{State}
use Rattle.edit_model.specs.History.{View, Entry, History}

abbrev pub point_code : Coded Point
point_code = code_by (ℕ × ℕ) (coded× coded_ℕ coded_ℕ) (λ p. (p.label, p.offset)) (λ c.
    record { label = c.0; offset = c.1 }) (λ _. refl)

abbrev pub pair_code : Coded Pair
pair_code = code_by (Point × Point) (coded× point_code point_code) (λ p. (p.anchor, p.focus)) (λ c.
    record { anchor = c.0; focus = c.1 }) (λ _. refl)

abbrev pub mark_code : Coded (List ℕ × Pair)
mark_code = coded× (coded_list coded_ℕ) pair_code

abbrev pub points_code : Coded LivePoints
points_code =
    code_by
    (Option Pair × (Option Pair × (List (List ℕ × Pair) × List (List ℕ))))
    (coded× (coded_option pair_code)
    (coded× (coded_option pair_code)
    (coded× (coded_list mark_code) (coded_list (coded_list coded_ℕ)))))
    (λ p. (p.selection, (p.scratch, (p.marks, p.names))))
    (λ c. record { selection = c.0; scratch = c.1.0; marks = c.1.1.0; names = c.1.1.1 })
    (λ _. refl)

abbrev pub setting_parts : Setting → ℕ × List ℕ
setting_parts On = (0, [])
setting_parts Off = (1, [])
setting_parts (Text value) = (2, value)
setting_parts Absent = (3, [])

abbrev pub setting_of_kind : ℕ → List ℕ → Setting
setting_of_kind zero value = On
setting_of_kind (suc zero) value = Off
setting_of_kind (suc (suc zero)) value = Text value
setting_of_kind (suc (suc (suc _))) value = Absent

pub setting-back : (s : Setting) → setting_of_kind (setting_parts s).0 (setting_parts s).1 ≡ s
setting-back On = refl
setting-back Off = refl
setting-back (Text value) = refl
setting-back Absent = refl

abbrev pub setting_code : Coded Setting
setting_code =
    code_by (ℕ × List ℕ) (coded× coded_ℕ (coded_list coded_ℕ)) setting_parts (λ p.
    setting_of_kind p.0 p.1) setting-back

abbrev pub flags_code : Coded Flags
flags_code = code_by (Bool × Bool) (coded× coded_bool coded_bool) (λ f.
    (f.css_styling, f.paragraphs)) (λ c. record { css_styling = c.0; paragraphs = c.1 }) (λ _. refl)

abbrev pub nodes_code : Coded (List (ℕ × Content))
nodes_code = coded_list (coded× coded_ℕ content_code)

abbrev pub state_code : Coded State
state_code =
    code_by
    (Forest Content
    × (LivePoints
    × (List Setting
    × (Flags × (ℕ × (ℕ × (ℕ × (Option ℕ × (Bool × (List Change × List (ℕ × Content)))))))))))
    (coded× (forest_code content_code)
    (coded× points_code
    (coded× (coded_list setting_code)
    (coded× flags_code
    (coded× coded_ℕ
    (coded× coded_ℕ
    (coded× coded_ℕ
    (coded× (coded_option coded_ℕ)
    (coded× coded_bool (coded× (coded_list change_code) nodes_code))))))))))
    (λ s. (
      s.trees,
      (
        s.points,
        (
          s.overrides,
          (s.flags, (s.next, (s.cap, (s.start, (s.host, (s.keeping, (s.edits, s.made))))))),
        ),
      ),
    ))
    (λ c. record {
      trees = c.0;
      points = c.1.0;
      overrides = c.1.1.0;
      flags = c.1.1.1.0;
      next = c.1.1.1.1.0;
      cap = c.1.1.1.1.1.0;
      start = c.1.1.1.1.1.1.0;
      host = c.1.1.1.1.1.1.1.0;
      keeping = c.1.1.1.1.1.1.1.1.0;
      edits = c.1.1.1.1.1.1.1.1.1.0;
      made = c.1.1.1.1.1.1.1.1.1.1;
    })
    (λ _. refl)

abbrev pub view_code : Coded View
view_code =
    code_by
    (Forest Content × (Option Pair × List (List ℕ × Pair)))
    (coded× (forest_code content_code) (coded× (coded_option pair_code) (coded_list mark_code)))
    (λ v. (v.document, (v.selection, v.marks)))
    (λ c. record { document = c.0; selection = c.1.0; marks = c.1.1 })
    (λ _. refl)

abbrev pub entry_code : Coded Entry
entry_code =
    code_by
    (View × (View × (List Change × List (ℕ × Content))))
    (coded× view_code (coded× view_code (coded× (coded_list change_code) nodes_code)))
    (λ e. (e.before, (e.after, (e.edits, e.made))))
    (λ c. record { before = c.0; after = c.1.0; edits = c.1.1.0; made = c.1.1.1 })
    (λ _. refl)

abbrev pub history_code : Coded History
history_code =
    code_by
    (List Entry × (List Entry × (ℕ × Bool)))
    (coded× (coded_list entry_code) (coded× (coded_list entry_code) (coded× coded_ℕ coded_bool)))
    (λ h. (h.undo, (h.redo, (h.depth, h.dropped))))
    (λ c. record { undo = c.0; redo = c.1.0; depth = c.1.1.0; dropped = c.1.1.1 })
    (λ _. refl)
