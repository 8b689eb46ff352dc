-- Lists of visits, place by place.
pub mod Lists
pub mod Places
pub mod VisitLists
pub mod LawfulLists
