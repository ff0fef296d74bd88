pub mod NearScratch
