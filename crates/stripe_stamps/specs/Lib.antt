pub mod SeenStripes
pub mod ItsStripes
pub mod Stripes
pub mod Sealed
pub mod Stamped
pub mod StampList
pub mod DrawnStamps
pub mod StampLaws
