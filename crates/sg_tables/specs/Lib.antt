pub mod HeadViews
