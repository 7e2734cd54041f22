-- What a record's test says, by whether one of its n words is bad: r is what `any` returned, b the last test.
use Rattle.std.specs.Prelude.{◌≡◌, ℕ, Bool, true, false, ◌||◌}
use Rattle.numbers.specs.Scan.{any_below}

module _ (n : ℕ) (t : ℕ → Bool) (r b : Bool) (e : r ≡ any_below n t) where
  pub one_bad : r ≡ true → r ≡ (any_below n t || b)
  one_bad h = rw (← e, h)

  pub none_bad : (x : Bool) → r ≡ false → x ≡ b → x ≡ (any_below n t || b)
  none_bad x h q = rw (← e, h) q
