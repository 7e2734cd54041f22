-- What a contract sees of holdings: the day file's words, the nets and the DVPs as functions of a position, the number of the book.
use Rattle.std.specs.Prelude.{ℕ, ◌+◌, ℤ, List}
use Rattle.numbers.specs.Table.{entry}
use Rattle.classes.specs.Range.{start_of}
use Rattle.positions.specs.Books.{book_number}
use Rattle.holdings.specs.declared.Holdings.{Holdings}
use Rattle.holdings.specs.declared.ClassHoldings.{ClassHoldings}
use Rattle.holdings.specs.declared.GroupHoldings.{GroupHoldings}
use Rattle.holdings.specs.declared.SeriesHoldings.{SeriesHoldings}

abbrev pub day_of : Holdings → List ℕ
day_of h = h.day.now.words.now

abbrev pub net_of : Holdings → ℕ → ℤ
net_of h = entry h.nets.now

abbrev pub dvp_of : Holdings → ℕ → ℤ
dvp_of h = entry h.dvps.now

abbrev pub class_day : ClassHoldings → List ℕ
class_day h = day_of h.account.now

abbrev pub class_net : ClassHoldings → ℕ → ℤ
class_net h = net_of h.account.now

abbrev pub class_dvp : ClassHoldings → ℕ → ℤ
class_dvp h = dvp_of h.account.now

abbrev pub class_book : ClassHoldings → ℕ
class_book h = book_number h.book

-- where the series of the class begin, and end
abbrev pub class_from : ClassHoldings → ℕ
class_from h = start_of (class_day h) h.class

abbrev pub class_to : ClassHoldings → ℕ
class_to h = start_of (class_day h) (h.class + 1)

-- of a group

abbrev pub group_day : GroupHoldings → List ℕ
group_day h = day_of h.account.now

abbrev pub group_net : GroupHoldings → ℕ → ℤ
group_net h = net_of h.account.now

abbrev pub group_dvp : GroupHoldings → ℕ → ℤ
group_dvp h = dvp_of h.account.now

abbrev pub group_book : GroupHoldings → ℕ
group_book h = book_number h.book

-- of a series, what is seen of its class

abbrev pub series_day : SeriesHoldings → List ℕ
series_day h = class_day h.class.now

abbrev pub series_net : SeriesHoldings → ℕ → ℤ
series_net h = class_net h.class.now

abbrev pub series_dvp : SeriesHoldings → ℕ → ℤ
series_dvp h = class_dvp h.class.now

abbrev pub series_book : SeriesHoldings → ℕ
series_book h = class_book h.class.now
