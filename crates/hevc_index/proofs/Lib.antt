mod Steps
mod Judging
mod Passing
mod Spliced
