use Rattle.std.proofs.Common.{◌≡◌, ◌+ℤ◌, ◌-ℤ◌, pos, get_or, set, refl, to_z-of_z}
use Rattle.numbers.specs.Abs.{back}
use Rattle.numbers.specs.Machine.{i64_of}
use Rattle.kept_account.proofs.margins.Margins.put_line.Goals as goal

pub returns : goal.returns
returns c =
    let m = c.args.self.now in
    let margin : i64_of c.args.margin ≡ c.args.margin = to_z-of_z c.ranges.margin in
    let before : i64_of (get_or m.lines c.args.group (pos 0)) ≡ get_or m.lines c.args.group (pos 0) = back refl c.requires.line_size in
    let total : i64_of m.total ≡ m.total = back refl c.requires.total_size in
    let change = back (λ i. margin i -ℤ before i) c.requires.change_size in
    let sum = back (λ i. total i +ℤ change i) c.requires.new_size in
    λ i. record { lines = set m.lines c.args.group (margin i); total = sum i }
