-- What holds of holdings: the day file is an accepted one, the amounts are within their budget, the series of a class are those of its range.
use Rattle.std.specs.Prelude.{List, [], ℕ, ℤ, ◌<◌}
use Rattle.std.proofs.Common.{arith}
use Rattle.numbers.specs.Table.{entry}
use Rattle.model.proofs.Fewest.{Few, budget_of, few_of}
use Rattle.model.proofs.Records.{Budget}
use Rattle.classes.specs.Checked.{checked_rows, checked_day}
use Rattle.classes.specs.Range.{Range, range}
use Rattle.classes.specs.Tables.{Day, Given}
use Rattle.positions.specs.Books.{book_number, holding_number}
use Rattle.positions.specs.declared.Book.{Book}
use Rattle.positions.specs.declared.Book.TheVariants.{Ordinary, Fail}
use Rattle.positions.specs.declared.Holding.{Holding}
use Rattle.positions.specs.declared.Holding.TheVariants.{Open, Exercised}
use Rattle.holdings.specs.declared.Holdings.{Holdings}
use Rattle.holdings.specs.declared.ClassHoldings.{ClassHoldings}
use Rattle.holdings.specs.Seen.{day_of, net_of, dvp_of, class_day, class_net, class_dvp, class_from, class_to}

pub book_below : (b : Book) → book_number b < 2
book_below Ordinary = omega arith
book_below Fail = omega arith

pub holding_below : (x : Holding) → holding_number x < 2
holding_below Open = omega arith
holding_below Exercised = omega arith

pub day_accepted : (h : Holdings) → Day (day_of h)
day_accepted h = checked_day (day_of h) h.day.now.checked

pub budget : (h : Holdings) → Budget (day_of h) (net_of h) (dvp_of h)
budget h = budget_of (day_of h) (net_of h) (dvp_of h) (checked_rows (day_of h) h.day.now.checked) h.few

-- nets within a budget are few without DVPs: holdings ask nothing more than `Given`
pub few_given : (d : List ℕ) (nets : List ℤ) → Given d nets → Few d (entry nets) (entry [])
few_given d nets w =
    few_of d (entry nets) (entry []) w.day.rows
    (record {
      records = w.budget.records;
      few = w.budget.few;
      net_limit = w.budget.net_limit;
      dvp_limit = λ p h. omega arith;
    })

pub given : (h : Holdings) → Given (day_of h) h.nets.now
given h = record { day = day_accepted h; dvp = dvp_of h; budget = budget h }

pub class_given : (h : ClassHoldings) → Given (class_day h) h.account.now.nets.now
class_given h = given h.account.now

pub class_budget : (h : ClassHoldings) → Budget (class_day h) (class_net h) (class_dvp h)
class_budget h = budget h.account.now

pub class_range : (h : ClassHoldings) → Range (class_day h) h.class (class_from h) (class_to h)
class_range h = range (class_day h) (checked_rows (class_day h) h.account.now.day.now.checked) h.class h.inside
