mod Extents
mod Others
mod Told
