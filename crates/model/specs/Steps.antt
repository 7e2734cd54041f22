-- Steps 2 to 9, of one book, a file a step. They need the day file d, the net and the DVP of each position by its key, and the book: 0 ordinary, 1 fail.
-- Everywhere c is a class, s a series, g a group, k a point (0 to 9 for D5 .. D1, U1 .. U5). Debit is positive, credit negative.
pub mod Positions
pub mod Classes
pub mod Cover
pub mod Spread
pub mod Mtm
pub mod Premium
pub mod Prices
pub mod Points
pub mod Additional
pub mod Minimum
pub mod Margin
pub mod Lines
unfoldable pub use Positions.*
unfoldable pub use Classes.*
unfoldable pub use Cover.*
unfoldable pub use Spread.*
unfoldable pub use Mtm.*
unfoldable pub use Premium.*
unfoldable pub use Prices.*
unfoldable pub use Points.*
unfoldable pub use Additional.*
unfoldable pub use Minimum.*
unfoldable pub use Margin.*
unfoldable pub use Lines.*
