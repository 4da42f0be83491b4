-- What the texts of the table of defaults stand for, where the code has them. No public clause
-- cites this module.
use Rattle.std.specs.Prelude.{ℕ, true, false, if◌then◌else◌, List, Option, Some, None, bytes_eq, codes}
use Rattle.css_value.specs.declared.decoration.TextDecoration.{TextDecoration}

abbrev pub pixels_of : List ℕ → Option ℕ
pixels_of text =
    if bytes_eq text (codes "32px") then Some 32
    else (if bytes_eq text (codes "24px") then Some 24
    else (if bytes_eq text (codes "19px") then Some 19
    else (if bytes_eq text (codes "16px") then Some 16
    else (if bytes_eq text (codes "13px") then Some 13
    else (if bytes_eq text (codes "11px") then Some 11
    else (if bytes_eq text (codes "18px") then Some 18
    else None))))))

abbrev pub lines_of : List ℕ → Option TextDecoration
lines_of text =
    if bytes_eq text (codes "underline") then
    Some (record { underline = true; overline = false; line_through = false })
    else (if bytes_eq text (codes "line-through") then Some (record {
      underline = false;
      overline = false;
      line_through = true;
    })
    else None)
