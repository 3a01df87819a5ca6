mod Settling
mod Gapping
mod Solid
mod Confining
