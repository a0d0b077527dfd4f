mod Images
mod Moments
mod Names
