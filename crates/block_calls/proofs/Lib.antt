mod Copying
mod Entering
mod FewBlocks
mod Fitting
mod Instances
mod Locating
mod Stacking
mod Starting
