pub mod Modulo
pub mod Places
