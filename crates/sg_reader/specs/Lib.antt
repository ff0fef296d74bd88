pub mod EachRead
