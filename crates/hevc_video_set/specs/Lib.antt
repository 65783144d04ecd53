pub mod HrdParams
pub mod PredWeightTable
pub mod SublayerHrdParameters
pub mod Vps
pub mod VuiParams
