pub mod Shown
pub mod ShownLaws
pub mod Items
pub mod StageItems
pub mod StageItemsLaws
