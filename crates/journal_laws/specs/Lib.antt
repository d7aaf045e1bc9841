pub mod Reports
pub mod Goods
pub mod Vain
pub mod Headline
