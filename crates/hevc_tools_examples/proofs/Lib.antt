mod Alike
mod Beginning
mod Few
mod Pieces
