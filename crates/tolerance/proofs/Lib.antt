pub mod FirstThat
pub mod LimitBound
pub mod RangesApart
