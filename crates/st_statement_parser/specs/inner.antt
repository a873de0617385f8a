pub mod BodyStates
