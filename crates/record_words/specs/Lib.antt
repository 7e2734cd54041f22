pub mod BadRecord
