pub mod VertexLaws
pub mod SymbolLaws
pub mod StepPlaces
pub mod LevelNames
