-- Tests that hold or fail, part by part; and a choice by a test that is known.
use Rattle.std.specs.Prelude.{◌≡◌, refl, Bool, true, false, ◌&&◌, ◌||◌, cond}
use Rattle.std.proofs.Common.{sym, true≢false}

pub and_left : (a b : Bool) → (a && b) ≡ true → a ≡ true
and_left true b e = refl
and_left false b e = absurd (true≢false (sym e))

pub and_right : (a b : Bool) → (a && b) ≡ true → b ≡ true
and_right true b e = e
and_right false b e = absurd (true≢false (sym e))

pub or_left : (a b : Bool) → (a || b) ≡ false → a ≡ false
or_left true b e = absurd (true≢false e)
or_left false b e = refl

pub or_right : (a b : Bool) → (a || b) ≡ false → b ≡ false
or_right true b e = absurd (true≢false e)
or_right false b e = e

pub or_true : (a : Bool) → (a || true) ≡ true
or_true true = refl
or_true false = refl

pub or_false : (a : Bool) → (a || false) ≡ a
or_false true = refl
or_false false = refl

pub and_true : (a : Bool) → (a && true) ≡ a
and_true true = refl
and_true false = refl

pub and_false : (a : Bool) → (a && false) ≡ false
and_false true = refl
and_false false = refl

pub and_out : (a b : Bool) → a ≡ false → (a && b) ≡ false
and_out a b e = rw e

pub and_in : (a b : Bool) → a ≡ true → (a && b) ≡ b
and_in a b e = rw e

-- a choice by a test that holds, and by one that fails
pub cond_on : {A : Type 0} (t : Bool) (x y : A) → t ≡ true → x ≡ cond t x y
cond_on t x y e = rw e

pub cond_off : {A : Type 0} (t : Bool) (x y : A) → t ≡ false → y ≡ cond t x y
cond_off t x y e = rw e
