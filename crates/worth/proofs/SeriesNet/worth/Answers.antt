use Rattle.std.proofs.Common.{◌≡◌, ◌≤◌, refl, arith, ◌*ℤ◌, pos, nat_abs}
use Rattle.model.specs.DayFile.{multiplier}
use Rattle.model.specs.Limits.{contracts_limit, price_limit}
use Rattle.numbers.specs.Abs.{nat_abs-*}
use Rattle.numbers.specs.Machine.{mul_fits, mul_is}
use Rattle.worth.proofs.SeriesNet.worth.Goals as goal

pub overflow_mul-result : goal.overflow_mul-result
overflow_mul-result c =
    let m = multiplier c.args.self.now.series.day.now c.args.self.now.series.place in
    let held = c.contracts.ensures in
    let price : c.args.price ≡ c.args.price = refl in
    let few : nat_abs (c.args.self.now.net *ℤ pos m) ≤ contracts_limit = rw (nat_abs-* c.args.self.now.net (pos m)) c.args.self.now.limit in
    mul_fits held price contracts_limit price_limit few c.requires (omega arith) (omega arith) (omega arith)

pub returns : goal.returns
returns c =
    let m = multiplier c.args.self.now.series.day.now c.args.self.now.series.place in
    let held = c.contracts.ensures in
    let price : c.args.price ≡ c.args.price = refl in
    let few : nat_abs (c.args.self.now.net *ℤ pos m) ≤ contracts_limit = rw (nat_abs-* c.args.self.now.net (pos m)) c.args.self.now.limit in
    mul_is held price contracts_limit price_limit few c.requires (omega arith) (omega arith) (omega arith)
