-- The limits of counts and fields, each once, and the sizes that they leave to sums. Amounts are ten-thousandths of a euro.
use Rattle.std.specs.Prelude.{ℕ, ◌+◌, ◌-◌, ◌*◌, ◌/◌}

-- a price or a rate
abbrev pub price_limit : ℕ
price_limit = 500000000

-- a long or a short quantity of a record
abbrev pub quantity_limit : ℕ
quantity_limit = 10000000

-- the magnitude of a record's DVP amount
abbrev pub dvp_amount_limit : ℕ
dvp_amount_limit = 5000000000000000

-- .. and of one in cents (U11)
abbrev pub cents_limit : ℕ
cents_limit = 50000000000000

-- the shares of a deposit
abbrev pub shares_limit : ℕ
shares_limit = 10000000

-- row 30: the absolute net × multiplier of a position
abbrev pub position_limit : ℕ
position_limit = 10000000

-- the classes and the series of a day file, the records of a batch
abbrev pub most_classes : ℕ
most_classes = 64

abbrev pub most_series : ℕ
most_series = 256

abbrev pub most_records : ℕ
most_records = 256

-- the accounts of one call
abbrev pub most_accounts : ℕ
most_accounts = 64

-- the trades of a day
abbrev pub most_trades : ℕ
most_trades = 4096

-- the product groups, numbered from 0; each has at most one line in each of the two books
abbrev pub group_count : ℕ
group_count = 29

abbrev pub most_lines : ℕ
most_lines = 2 * group_count

-- a multiplier
abbrev pub multiplier_limit : ℕ
multiplier_limit = 10000

-- an offset that leaves a credit whole: 100 percent, in hundredths of a percent
abbrev pub whole_offset : ℕ
whole_offset = 10000

-- the points D5 .. D1, U1 .. U5
abbrev pub point_count : ℕ
point_count = 10

-- the first of them and the last
abbrev pub downside5 : ℕ
downside5 = 0

abbrev pub upside5 : ℕ
upside5 = point_count - 1

-- and the two next to the underlying price
abbrev pub upside1 : ℕ
upside1 = point_count / 2

abbrev pub downside1 : ℕ
downside1 = upside1 - 1

-- ---- what a record adds at most: to a sum of net × multiplier × price, to a spread, to an MTM, to a margin

abbrev pub record_worth : ℕ
record_worth = position_limit * price_limit

-- a spread takes a contract from each side and charges the two with at most three rates
abbrev pub side_rate_limit : ℕ
side_rate_limit = 3 * price_limit / 2

abbrev pub record_spread : ℕ
record_spread = position_limit * side_rate_limit

abbrev pub record_mtm : ℕ
record_mtm = record_worth + dvp_amount_limit

abbrev pub record_margin : ℕ
record_margin = record_spread + record_mtm + record_worth + record_worth

-- ---- and all records of a batch

-- a sum of nets, or of nets × multiplier
abbrev pub contracts_limit : ℕ
contracts_limit = most_records * position_limit

-- a sum of net × multiplier × price
abbrev pub worth_limit : ℕ
worth_limit = most_records * record_worth

abbrev pub spread_limit : ℕ
spread_limit = most_records * record_spread

abbrev pub mtm_limit : ℕ
mtm_limit = most_records * record_mtm

abbrev pub margin_limit : ℕ
margin_limit = most_records * record_margin

-- ten running amounts before a position is added: those of a class, and of one position more
abbrev pub running_limit : ℕ
running_limit = 2 * worth_limit
