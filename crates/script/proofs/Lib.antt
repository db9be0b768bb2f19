mod Hex
mod Growing
mod Taken
mod Headed
mod Examples
mod Numbered
