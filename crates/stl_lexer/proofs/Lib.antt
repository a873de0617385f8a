mod Agreement
mod Finding
mod Following
mod Forms
mod TokenSteps
