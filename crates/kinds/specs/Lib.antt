pub mod RulesAt
