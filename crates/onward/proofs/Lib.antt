mod CallByCall
mod TakenUp
mod AtOnce
