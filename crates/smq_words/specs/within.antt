-- What only private clauses cite: tasks by the names of subcommands.
pub mod Tasks
