-- What a step does to the margins: the line of its record's group and book is computed again, its book's total moves by that line's change, every other line and the other book stay.
use Rattle.std.specs.Prelude.{◌≡◌, ◌≢◌, Bool, cond, List, ℕ, ◌<◌, ℤ, pos, neg_ℤ, ◌+ℤ◌, ◌-ℤ◌, get_or}
use Rattle.std.proofs.Math.Bool.{true, false}
use Rattle.std.proofs.Math.Path.{refl, sym, ap}
use Rattle.std.proofs.Common.{◌∙◌, arith}
use Rattle.std.proofs.Math.IntN.{+ℤ_assoc, +ℤ_comm, +ℤ_idr, +ℤ_invl}
use Rattle.model.specs.DayFile.{series_count}
use Rattle.model.specs.Steps.Lines.{has_line, total}
use Rattle.model.specs.Steps.Margin.{line_amounts, margin}
use Rattle.model.specs.Locality.{book_of, group_of}
use Rattle.model.proofs.Accepted.{DayRows}
use Rattle.model.proofs.Edits.{OthersAgree, book_change, other_total_lem}
use Rattle.model.proofs.Lines.{margin_same}
use Rattle.model.proofs.NoLine.{no_line-zero}
use Rattle.model.proofs.Read.{adds}
use Rattle.day_steps.specs.Step.{place_of, with_net, with_dvp, lines_agree, group_below}

-- a group without a line has margin 0: what it adds to the total is its margin either way
pub line_margin : (d : List ℕ) (n v : ℕ → ℤ) (k g : ℕ) → adds d n n v k g ≡ margin d n v k g
unfolding line_amounts
line_margin d n v k g = by (has_line d n v k g) refl
  where
    by : (t : Bool) → has_line d n v k g ≡ t → cond t (margin d n v k g) (pos 0) ≡ margin d n v k g
    by true e = refl
    by false e = sym (ap (λ (l : List ℤ). get_or l 4 (pos 0)) (no_line-zero d n v k g e))

-- x − y = z, so x = y + z
moved : (x y z : ℤ) → x -ℤ y ≡ z → x ≡ y +ℤ z
moved x y z e = sym (ap (λ (u : ℤ). y +ℤ u) (sym e) ∙ +ℤ_comm y (x -ℤ y) ∙ +ℤ_assoc x (neg_ℤ y) y ∙ ap (λ (u : ℤ). x +ℤ u) (+ℤ_invl y) ∙ +ℤ_idr x)

module _ (d : List ℕ) (days : DayRows d) (n v : ℕ → ℤ) (w : List ℕ) where
  others : OthersAgree d n v (with_net n w) (with_dvp v w) (group_of d w) (book_of w)
  others g k hk o = lines_agree d days w n v g k hk o

  pub other_margin : (g k : ℕ) → k < 2 → (g ≡ group_of d w → k ≡ book_of w → ⊥) → margin d n v k g ≡ margin d (with_net n w) (with_dvp v w) k g
  other_margin g k hk o = margin_same d n v (with_net n w) (with_dvp v w) k g (others g k hk o)

  module _ (h : place_of w < series_count d) where
    pub other_total : (k : ℕ) → k < 2 → k ≢ book_of w → total d n n v k ≡ total d (with_net n w) (with_net n w) (with_dvp v w) k
    other_total k hk o =
        other_total_lem d n n v (with_net n w) (with_net n w) (with_dvp v w) (group_of d w) (book_of w) (group_below d days w h) (omega arith) others others k hk o

    pub book_moves : total d (with_net n w) (with_net n w) (with_dvp v w) (book_of w)
        ≡ total d n n v (book_of w) +ℤ (margin d (with_net n w) (with_dvp v w) (book_of w) (group_of d w) -ℤ margin d n v (book_of w) (group_of d w))
    book_moves =
        moved (total d (with_net n w) (with_net n w) (with_dvp v w) (book_of w)) (total d n n v (book_of w)) _
        (book_change d n n v (with_net n w) (with_net n w) (with_dvp v w) (group_of d w) (book_of w) (group_below d days w h) (omega arith) others others
        ∙ (λ i. line_margin d (with_net n w) (with_dvp v w) (book_of w) (group_of d w) i -ℤ line_margin d n v (book_of w) (group_of d w) i))
