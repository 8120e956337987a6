pub mod LastDigits
