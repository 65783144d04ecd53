pub mod SpsKeeps
