pub mod Lines
pub mod Sides
pub mod RuleWords
pub mod RuleLines
pub mod RuleSections
