-- How long the lines are.
mod Lines
