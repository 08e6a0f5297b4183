pub mod NoText
