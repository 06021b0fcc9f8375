pub mod NumberFacts
