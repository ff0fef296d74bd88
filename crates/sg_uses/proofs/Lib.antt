pub mod SeenLaws
pub mod NotedLaws
pub mod Order
pub mod FirstInText
