mod Activations
mod Calls
mod Effects
mod JumpCases
mod Pushing
mod Steps
