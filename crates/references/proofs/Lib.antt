pub mod Coordinate
