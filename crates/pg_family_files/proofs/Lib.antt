mod Common
pub mod Bits
pub mod Sound
pub mod Printed
pub mod SignsAgain
pub mod PrintSize
pub mod RoundTrip
pub mod Again
pub mod FirstFault
pub mod SpanCertWithin
pub mod SpanCertText
pub mod SpanCertReading
pub mod SpanCertBack
pub mod SpanCertFirst
