mod Common
pub mod Finds
pub mod SetLaws
pub mod Sound
pub mod PrintLemmas
pub mod FirstFault
pub mod Words
pub mod RoundTrip
pub mod PrintSize
pub mod RoundTripFile
pub mod ShapeLine
