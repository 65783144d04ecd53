pub mod VpsKeeps
