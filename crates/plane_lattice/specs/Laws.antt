pub mod QuotientLaws
