-- What the proofs of several functions use.
mod Lines
mod Puts
mod Listed
mod Inputs
mod Numbers
