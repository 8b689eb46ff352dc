-- The history of a book in one lane, and the order of one caller.
pub mod HistoryLanes
pub mod SortedVisits
pub mod CallerOrders
