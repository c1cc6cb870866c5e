mod Cells
mod Fields
mod Making
mod Numbers
mod Tests
mod Texts
mod Touching
mod Values
