-- What a machine prints that runs an image of one of the programs.
pub mod Laws
