mod Common
pub mod ImageLines
pub mod Turning
pub mod Numbers
pub mod Imaging
pub mod Boards
pub mod Listing
pub mod Known
pub mod SortedRows
pub mod RowOrders
pub mod SortedImages
pub mod Criteria
pub mod MoreCriteria
pub mod SetImages
pub mod Positions
pub mod BoardImages
