pub mod StructureLists
