mod Floats
mod Depths
mod Shown
mod SameDocument
