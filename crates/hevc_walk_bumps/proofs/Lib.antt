pub mod Bumps
