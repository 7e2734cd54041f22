-- Texts read, by computing: what each says, in one statement over a list.
use Rattle.std.specs.Prelude.{◌≡◌, refl, List, [], ◌∷◌, map, ℕ, ℤ, pos, negsuc, Option, Some, None}
use Prim.Native.String.{String}
use Rattle.model.specs.declared.TextSays.{TextSays}
use Rattle.model.specs.declared.TextSays.TheVariants.{Report, Refusal}
use Rattle.model.specs.Ascii.{ascii}
use Rattle.model.specs.TextReading.{text_says}
use Rattle.model.specs.Computing.{everything}

pub record Reading : Type 0 where
  pub text : String
  pub says : Option TextSays

-- a report of so many lines with these totals
abbrev report : ℕ → ℤ → ℤ → ℤ → Option TextSays
report n x y z = Some (Report (record { lines = n; ordinary = x; fail = y; account = z }))

unfoldable pub readings : List Reading
readings =
    -- M3's report, a report with a credit, a refusal
    record {
      text = "MARGIN 1\nO 3 0 1500000 0 8000000 9500000 0\nTOTAL 9500000 0 9500000\n";
      says = report 1 (pos 9500000) (pos 0) (pos 9500000);
    }
    ∷ record { text = "MARGIN 0\nTOTAL -1 20 19\n"; says = report 0 (negsuc 0) (pos 20) (pos 19) }
    ∷ record { text = "REFUSED 30 7\n"; says = Some (Refusal 30 7) }
    -- no space before a field, a line too few, no newline, bytes behind the end
    ∷ record { text = "REFUSED:30 7\n"; says = None }
    ∷ record { text = "MARGIN 1\nTOTAL 1 2 3\n"; says = None }
    ∷ record { text = "REFUSED 30 7"; says = None }
    ∷ record { text = "REFUSED 30 7\n\n"; says = None }
    -- minus zero, 2 ^ 63, a refusal's number that stands for a report
    ∷ record { text = "MARGIN 0\nTOTAL -0 0 0\n"; says = None }
    ∷ record { text = "MARGIN 0\nTOTAL 9223372036854775808 0 0\n"; says = None }
    ∷ record { text = "REFUSED 0 7\n"; says = None }
    ∷ []

pub readings_agree : map (λ (r : Reading). text_says (ascii r.text)) readings ≡ map (λ (r : Reading). r.says) readings
unfolding readings everything ascii
readings_agree = refl
