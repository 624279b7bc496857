pub mod Dashed
pub mod Figures
pub mod Marks
pub mod Printed
