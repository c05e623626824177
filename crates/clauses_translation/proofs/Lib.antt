mod Regulars
mod Walking
mod NodeWalks
mod BodyWalks
